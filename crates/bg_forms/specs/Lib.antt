pub mod Forms
pub mod Views
pub mod Fitting
pub mod ChainForms
pub mod Worth
pub mod Spines
