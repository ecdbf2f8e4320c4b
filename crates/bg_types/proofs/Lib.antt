pub mod Same
pub mod Least
pub mod Judgement
