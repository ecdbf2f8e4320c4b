pub mod Valued
pub mod Bases
