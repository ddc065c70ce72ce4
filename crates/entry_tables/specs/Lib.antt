pub mod Tables
pub mod Turns
pub mod Laws
pub mod Examples
