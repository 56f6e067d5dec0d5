pub mod Inverting
pub mod Extracting
pub mod Both
