pub mod Parts
pub mod Overwrite
