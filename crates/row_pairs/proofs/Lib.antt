pub mod Pairs
pub mod Turns
pub mod Cells
pub mod Rest
pub mod Intersecting
pub mod Uniting
