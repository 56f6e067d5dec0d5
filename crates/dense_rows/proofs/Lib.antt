pub mod Cells
pub mod Sweep
pub mod Gathering
