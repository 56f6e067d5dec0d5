pub mod Model
pub mod Effects
pub mod Formulas
pub mod Calls
pub mod Histories
pub mod Examples
pub mod FormulaExamples
pub mod RevisionExamples
