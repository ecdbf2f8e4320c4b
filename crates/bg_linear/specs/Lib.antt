pub mod Lins
pub mod Forms
pub mod Views
pub mod Chains
pub mod Relations
pub mod Sorts
pub mod ChainKinds
