pub mod Applied
pub mod Empty
pub mod Rows
pub mod Result
