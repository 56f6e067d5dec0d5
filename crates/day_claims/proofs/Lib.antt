pub mod Accepted
pub mod Written
pub mod Reading
pub mod Steps
pub mod Claims
