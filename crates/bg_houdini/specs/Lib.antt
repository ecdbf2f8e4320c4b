pub mod Tasks
pub mod Checks
pub mod Checkers
pub mod Pieces
pub mod Outcomes
pub mod Told
pub mod Known
pub mod Begun
