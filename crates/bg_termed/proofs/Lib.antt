pub mod Behind
pub mod Tabled
pub mod Plain
pub mod Firsts
pub mod Indices
pub mod Over
