pub mod Applying
pub mod Values
