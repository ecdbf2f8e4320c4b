pub mod Sorts
pub mod Views
pub mod Arrivals
pub mod Passive
