pub mod Termed
pub mod Clauses
pub mod Lined
