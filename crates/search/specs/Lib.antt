pub mod Search
pub mod Slots
pub mod Laws
pub mod Examples
