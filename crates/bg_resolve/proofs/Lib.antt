pub mod Order
pub mod Programs
pub mod CallForms
pub mod Recursions
pub mod Resolved
pub mod Told
