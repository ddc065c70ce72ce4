pub mod Fields
pub mod Steps
pub mod Laws
pub mod Examples
