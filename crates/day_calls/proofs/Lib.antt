pub mod Counts
pub mod Replacing
pub mod Rewrites
pub mod Folds
pub mod Shows
pub mod Bounds
