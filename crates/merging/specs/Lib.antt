pub mod Merging
pub mod AnyOrder
pub mod Examples
