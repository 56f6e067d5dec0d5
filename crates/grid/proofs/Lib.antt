pub mod Gather
pub mod Same
pub mod Counts
pub mod Position
