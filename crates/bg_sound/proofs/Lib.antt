mod Agree
mod Choosing
mod Shorter
pub mod Plain
mod Zero
