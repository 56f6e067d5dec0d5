pub mod Decoding
pub mod Examples
