pub mod Records
pub mod Bounds
pub mod Laws
