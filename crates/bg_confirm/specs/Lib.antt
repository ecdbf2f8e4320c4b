pub mod Pairs
pub mod Named
pub mod Typed
pub mod Met
pub mod Accepted
