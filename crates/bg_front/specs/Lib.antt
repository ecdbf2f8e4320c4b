pub mod Limits
pub mod Refusals
pub mod Lines
pub mod Trees
pub mod Programs
