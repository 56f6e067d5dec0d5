pub mod Refusal
pub mod Inputs
pub mod Lists
