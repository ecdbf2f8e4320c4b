pub mod Docs
pub mod Exprs
pub mod Parts
pub mod Stmts
pub mod Printed
pub mod Rows
