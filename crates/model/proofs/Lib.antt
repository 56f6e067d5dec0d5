pub mod Alike
pub mod Fitting
pub mod Operations
pub mod Formulas
pub mod Effects
