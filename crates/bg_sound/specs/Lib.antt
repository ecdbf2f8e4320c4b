pub mod Told
pub mod Used
pub mod Chosen
pub mod Sound
pub mod Report
