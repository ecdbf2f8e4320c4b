pub mod Faults
pub mod Spaces
pub mod Exprs
pub mod Clauses
pub mod Inside
pub mod Views
