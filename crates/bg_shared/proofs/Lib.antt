pub mod Table
pub mod Shots
