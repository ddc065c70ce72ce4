pub mod Formats
pub mod Laws
