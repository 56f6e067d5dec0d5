pub mod Results
pub mod Functions
pub mod Hosts
pub mod Stored
pub mod Claim
pub mod Promise
