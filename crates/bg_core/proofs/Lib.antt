pub mod Means
pub mod Ties
pub mod Tabulates
pub mod Going
pub mod Tabled
