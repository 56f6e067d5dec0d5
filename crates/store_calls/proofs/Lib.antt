pub mod Roles
pub mod Refusals
pub mod Evaluations
pub mod Commits
pub mod Operations
