mod Digits
mod Examples
mod Cases
mod Longest
mod Spaced
mod Marks
mod Spoken
mod Reading
pub mod Rows
pub mod Steps
pub mod Loops
