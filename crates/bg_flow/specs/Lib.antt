pub mod Blocks
pub mod Looped
pub mod Core
