pub mod Bits
pub mod Marks
pub mod Collecting
pub mod Keeping
