pub mod TypeRules
pub mod ExprRule
pub mod PartRules
mod Builds
