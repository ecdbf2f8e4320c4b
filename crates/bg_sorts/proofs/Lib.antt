pub mod Declared
pub mod Given
pub mod Below
pub mod Incarnated
