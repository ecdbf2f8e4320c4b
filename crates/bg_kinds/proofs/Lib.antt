pub mod Types
pub mod Firsts
pub mod Loops
pub mod Gathered
pub mod Sameness
pub mod Spelled
