pub mod Ends
pub mod Exprs
pub mod Bare
pub mod Places
pub mod Nodes
