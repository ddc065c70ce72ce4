pub mod FileValidity
pub mod Keys
