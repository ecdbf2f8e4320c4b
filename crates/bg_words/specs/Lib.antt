pub mod Sets
pub mod Steps
pub mod Rule
pub mod Core
pub mod History
