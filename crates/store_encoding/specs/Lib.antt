pub mod Writing
pub mod Stores
pub mod Placing
pub mod Examples
