pub mod Names
pub mod Found
pub mod Seen
pub mod Spelled
pub mod Given
pub mod Read
pub mod Written
