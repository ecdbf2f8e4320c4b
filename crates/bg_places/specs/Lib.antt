pub mod Placed
pub mod Views
pub mod Checks
pub mod Counts
