pub mod Fronts
pub mod Accepted
pub mod OldFiles
pub mod Claim
