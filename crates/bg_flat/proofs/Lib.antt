pub mod Alike
pub mod Fronts
pub mod Finished
pub mod Staying
