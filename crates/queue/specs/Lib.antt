pub mod Queue
pub mod Laws
pub mod Examples
