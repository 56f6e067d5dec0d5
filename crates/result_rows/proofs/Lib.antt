pub mod Inputs
pub mod AssignRows
