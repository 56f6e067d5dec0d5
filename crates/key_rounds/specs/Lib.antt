pub mod Rounds
pub mod Questions
pub mod Examples
