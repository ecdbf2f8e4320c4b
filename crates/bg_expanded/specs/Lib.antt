pub mod Chains
pub mod Counts
pub mod Applied
pub mod Ranked
pub mod Weights
pub mod Bodies
pub mod Pairs
