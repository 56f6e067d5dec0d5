pub mod Dot
pub mod Adding
pub mod Sums
pub mod Summing
pub mod ByEntries
