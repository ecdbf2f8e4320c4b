pub mod Makes
pub mod Flattens
pub mod Numbered
pub mod Made
pub mod Plain
