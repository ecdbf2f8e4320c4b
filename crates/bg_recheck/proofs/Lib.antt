pub mod Checked
pub mod Ends
pub mod Unread
