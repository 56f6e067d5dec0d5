pub mod Counts
pub mod Below
pub mod Parts
pub mod Rising
