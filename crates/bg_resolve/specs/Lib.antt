pub mod Program
pub mod Examples
pub mod Parts
pub mod Pieces
pub mod Calls
pub mod Resolves
