pub mod Refusals
pub mod Rechecks
pub mod Views
