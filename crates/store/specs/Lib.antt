pub mod Store
pub mod Slots
pub mod Files
pub mod Examples
