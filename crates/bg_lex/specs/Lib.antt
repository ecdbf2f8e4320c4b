pub mod Fronts
pub mod Bytes
pub mod Words
pub mod Ends
pub mod Signs
pub mod Faults
