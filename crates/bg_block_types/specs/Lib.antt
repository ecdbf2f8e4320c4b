pub mod Typed
pub mod TypedFlow
