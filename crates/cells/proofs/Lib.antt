pub mod Cases
pub mod Looks
pub mod Entries
pub mod Positions
