pub mod Same
pub mod Bounds
pub mod Failures
