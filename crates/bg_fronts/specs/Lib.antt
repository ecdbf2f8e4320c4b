pub mod Two
pub mod Said
