pub mod Changed
pub mod Opening
pub mod Putting
pub mod Replaced
