pub mod Stamps
pub mod Rows
pub mod Steps
pub mod Hands
