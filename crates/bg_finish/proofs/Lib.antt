pub mod Entered
pub mod Filling
pub mod Held
pub mod Ending
pub mod Indexing
