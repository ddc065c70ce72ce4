pub mod Shares
pub mod Causes
pub mod Chains
pub mod Outcomes
