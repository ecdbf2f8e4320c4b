pub mod Statuses
pub mod Wrote
pub mod Refused
