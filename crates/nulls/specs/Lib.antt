pub mod Nulls
pub mod Laws
pub mod Examples
