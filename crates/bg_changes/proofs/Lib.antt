pub mod Forms
pub mod There
pub mod OneMore
pub mod Read
pub mod Changed
pub mod Whole
