pub mod Sections
pub mod GridSections
pub mod Encoded
pub mod Decoded
pub mod Canonical
pub mod Assembled
pub mod OneWriting
