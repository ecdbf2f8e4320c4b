pub mod Encoded
pub mod Interps
pub mod Checks
