pub mod Fair
pub mod Put
pub mod Numbered
pub mod Lines
pub mod Indexed
