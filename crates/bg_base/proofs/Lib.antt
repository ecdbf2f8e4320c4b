pub mod Ring
pub mod Euclid
pub mod Takes
pub mod Totals
