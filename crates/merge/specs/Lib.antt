pub mod Combined
pub mod Ways
pub mod Steps
