pub mod Meaning
pub mod ChainForms
mod Spines
