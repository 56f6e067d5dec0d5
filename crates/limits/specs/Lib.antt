pub mod Limits
pub mod Sizes
pub mod Ranges
