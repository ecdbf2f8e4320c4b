pub mod Numbers
pub mod Covers
