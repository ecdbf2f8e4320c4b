pub mod Passive
pub mod Incarnations
pub mod Arrivals
pub mod ReadBack
pub mod Equations
