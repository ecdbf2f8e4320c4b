pub mod Types
pub mod Programs
pub mod Judging
