pub mod Lines
pub mod Laws
pub mod Digits
pub mod Writing
