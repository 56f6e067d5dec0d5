pub mod Layout
pub mod Valid
pub mod Facts
pub mod Falls
pub mod HeaderWords
