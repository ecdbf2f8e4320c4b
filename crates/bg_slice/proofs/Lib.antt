mod Using
mod Below
mod Left
mod Saying
pub mod Onward
pub mod Marking
mod Sizes
mod Guarding
pub mod Fronts
mod Noting
