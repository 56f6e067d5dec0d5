pub mod Attempts
