pub mod Encode
pub mod OneWriting
pub mod Examples
