pub mod Steps
pub mod Means
pub mod Forms
pub mod Writes
