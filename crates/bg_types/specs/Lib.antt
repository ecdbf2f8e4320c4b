pub mod Programs
pub mod Verdicts
pub mod Checks
pub mod Tables
pub mod Examples
