pub mod Digits
pub mod Laws
mod Examples
