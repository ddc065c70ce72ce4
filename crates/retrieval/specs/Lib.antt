pub mod Retrieval
pub mod Laws
