pub mod Sections
pub mod Valid
pub mod Facts
pub mod Room
pub mod Lent
pub mod Examples
