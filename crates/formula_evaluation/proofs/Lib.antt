pub mod Chains
pub mod Standing
pub mod Factors
pub mod Lending
