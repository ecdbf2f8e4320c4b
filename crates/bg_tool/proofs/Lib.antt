pub mod Ends
pub mod Annotated
pub mod Benched
