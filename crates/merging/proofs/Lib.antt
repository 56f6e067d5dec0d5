pub mod Cells
pub mod Grids
pub mod Steps
pub mod AnyOrder
pub mod Examples
pub mod Results
