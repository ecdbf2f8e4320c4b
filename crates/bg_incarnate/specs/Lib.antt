pub mod Views
pub mod Arrived
pub mod Walked
pub mod Even
