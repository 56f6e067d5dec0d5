pub mod Laws
pub mod Larger
