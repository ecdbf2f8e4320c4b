pub mod Formed
pub mod Wells
pub mod Said
pub mod Used
pub mod Views
pub mod Seen
pub mod Agree
