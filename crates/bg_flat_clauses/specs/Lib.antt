pub mod Linear
pub mod Sorts
