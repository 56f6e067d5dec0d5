pub mod Adding
pub mod Blocking
pub mod Places
