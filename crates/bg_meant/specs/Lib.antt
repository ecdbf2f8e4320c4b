pub mod Means
pub mod Once
pub mod Statements
pub mod Declared
