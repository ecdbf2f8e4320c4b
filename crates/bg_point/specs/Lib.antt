pub mod Points
pub mod Answers
pub mod Spans
pub mod Shelves
