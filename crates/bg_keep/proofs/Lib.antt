pub mod Rows
pub mod Forms
pub mod Turns
pub mod Agree
pub mod Gone
pub mod Framed
pub mod Written
pub mod Spelled
