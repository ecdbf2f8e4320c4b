pub mod Paths
pub mod Counts
pub mod Certs
pub mod Walks
pub mod Causes
pub mod Tours
pub mod Wanted
pub mod Written
