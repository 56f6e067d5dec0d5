pub mod Words
pub mod Products
pub mod Casts
pub mod Values
pub mod Exception
