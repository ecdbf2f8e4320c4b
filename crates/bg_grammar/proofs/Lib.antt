pub mod Sets
pub mod Choose
pub mod Rule
pub mod Loops
