pub mod Graphs
pub mod Marks
pub mod Rings
pub mod Answers
