pub mod OldRule
pub mod Claim
