pub mod Quiet
pub mod Merging
pub mod Ways
