pub mod Kept
pub mod Guesses
pub mod Told
pub mod Annotated
pub mod Views
