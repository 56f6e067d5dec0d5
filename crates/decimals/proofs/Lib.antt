pub mod Digits
pub mod Cases
pub mod Lengths
