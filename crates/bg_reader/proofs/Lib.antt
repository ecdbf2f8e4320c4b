pub mod Samples
pub mod Good
pub mod Exact
pub mod Nests
pub mod Loops
pub mod Fits
pub mod Told
