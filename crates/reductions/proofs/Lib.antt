pub mod Identities
pub mod Totals
pub mod Same
