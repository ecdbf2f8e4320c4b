pub mod Paths
pub mod Rows
pub mod Visits
pub mod Orders
pub mod Lists
pub mod Parts
pub mod Walks
