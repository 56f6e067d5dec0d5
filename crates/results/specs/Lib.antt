pub mod Staging
pub mod Joining
