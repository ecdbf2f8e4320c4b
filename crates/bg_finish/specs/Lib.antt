pub mod Finished
pub mod Filled
