pub mod Tests
pub mod Counting
pub mod Rounds
pub mod Questions
