pub mod Views
pub mod Desks
pub mod Applied
pub mod Axioms
pub mod Constants
pub mod Nexts
