pub mod Limits
pub mod Marks
pub mod Near
pub mod Nearest
pub mod Upto
pub mod Shelved
