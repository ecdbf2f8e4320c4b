pub mod Rows
pub mod Cutting
pub mod Leaving
