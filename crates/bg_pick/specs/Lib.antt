pub mod Picks
pub mod Index
pub mod Marks
pub mod Problems
