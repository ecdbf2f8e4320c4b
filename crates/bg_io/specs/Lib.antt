pub mod Calls
pub mod Causes
pub mod Errors
pub mod Memory
pub mod Reading
pub mod Stored
