pub mod Renamed
pub mod Views
pub mod Written
