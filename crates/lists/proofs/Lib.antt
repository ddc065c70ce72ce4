pub mod Arrays
pub mod Chains
