pub mod Sets
pub mod Bits
pub mod Keeps
pub mod History
pub mod Core
pub mod Words
