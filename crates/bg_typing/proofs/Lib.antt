pub mod Signs
pub mod Forms
pub mod Judged
pub mod Steps
