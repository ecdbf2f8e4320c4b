pub mod Values
pub mod Syntax
pub mod Execution
pub mod Resolved
pub mod Meaning
pub mod Views
