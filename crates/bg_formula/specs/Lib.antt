pub mod Atoms
pub mod Formulas
pub mod Meaning
pub mod Instances
