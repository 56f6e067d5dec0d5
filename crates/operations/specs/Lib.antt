pub mod Accumulator
pub mod CellOperations
pub mod GridOperations
pub mod WriteBacks
pub mod Calls
pub mod Lists
pub mod Examples
