pub mod Trees
pub mod Reading
pub mod Reader
pub mod Grouped
pub mod Values
pub mod Examples
pub mod OneReading
