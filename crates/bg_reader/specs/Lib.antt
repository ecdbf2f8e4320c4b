pub mod Kinds
pub mod Reading
pub mod Exact
pub mod Told
