pub mod Vectors
pub mod Writing
