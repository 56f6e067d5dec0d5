pub mod Prepared
pub mod WriteRow
pub mod Plain
pub mod FinalRow
pub mod Progress
pub mod Straight
