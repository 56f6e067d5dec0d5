pub mod Facts
pub mod Falls
pub mod Checks
pub mod Rows
pub mod HeaderWords
