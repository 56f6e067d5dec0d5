pub mod Attempts
pub mod Unread
