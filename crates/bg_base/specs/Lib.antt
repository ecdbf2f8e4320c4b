pub mod Exact
pub mod Totals
