pub mod Declarations
pub mod Programs
pub mod Nodes
