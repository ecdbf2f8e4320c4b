pub mod Below
pub mod Found
pub mod Growing
pub mod Numbered
pub mod Lines
pub mod Indexed
