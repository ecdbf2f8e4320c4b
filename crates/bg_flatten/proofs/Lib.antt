pub mod Lists
pub mod Forms
pub mod Pieces
pub mod Joined
pub mod Handled
pub mod Numbered
pub mod Plain
pub mod Applied
