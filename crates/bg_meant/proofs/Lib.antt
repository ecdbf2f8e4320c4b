mod Times
mod Statements
mod Labels
pub mod Bodies
pub mod Programs
mod Places
mod Meanings
mod Once
mod StMeanings
mod DeclMeanings
mod Applied
pub mod Meant
