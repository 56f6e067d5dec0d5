pub mod Counts
pub mod Placed
