pub mod Claims
pub mod Lists
pub mod Calls
pub mod Loops
pub mod Guessed
pub mod Erased
pub mod Order
pub mod Views
