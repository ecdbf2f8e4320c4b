pub mod Slices
pub mod Marks
pub mod Noted
pub mod Counting
