pub mod Joins
pub mod SpaceForms
pub mod Noted
mod Gathered
