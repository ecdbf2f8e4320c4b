pub mod Entries
pub mod Read
pub mod Standing
pub mod Behind
