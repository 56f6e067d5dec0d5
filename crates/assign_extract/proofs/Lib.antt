pub mod Grids
pub mod Lent
pub mod Store
pub mod ReadBack
