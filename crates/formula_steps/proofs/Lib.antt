pub mod Rows
pub mod Result
