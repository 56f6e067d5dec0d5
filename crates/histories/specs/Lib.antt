pub mod Functions
pub mod Hosts
pub mod Lists
pub mod Promise
