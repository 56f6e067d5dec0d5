pub mod Rows
pub mod Through
