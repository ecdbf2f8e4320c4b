pub mod Bare
pub mod Nowhere
