pub mod Placing
pub mod Keeping
pub mod Row
