pub mod Exact
pub mod Rows
pub mod Moved
pub mod Ahead
pub mod Spines
