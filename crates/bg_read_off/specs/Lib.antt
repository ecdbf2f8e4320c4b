pub mod Leaves
pub mod Built
