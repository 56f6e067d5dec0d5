pub mod RoundTrips
pub mod Loops
