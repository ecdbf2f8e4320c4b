pub mod Kept
pub mod Answers
pub mod Keys
pub mod Columns
pub mod Work
