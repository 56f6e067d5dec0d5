pub mod Commits
pub mod Bytes
pub mod Formulas
