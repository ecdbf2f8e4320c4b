pub mod DeclRules
mod Inside
pub mod Answered
pub mod Sizes
