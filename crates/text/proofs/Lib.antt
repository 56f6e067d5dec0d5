pub mod RowLines
pub mod Lengths
pub mod Room
pub mod Cases
