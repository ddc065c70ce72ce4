pub mod Keys
pub mod Store
pub mod Queue
pub mod Ground
pub mod Committed
pub mod Examples
