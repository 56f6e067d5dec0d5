pub mod Empty
pub mod Cases
