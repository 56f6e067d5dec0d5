pub mod Refusal
pub mod Ready
