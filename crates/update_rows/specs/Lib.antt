pub mod UpdateRows
pub mod Laws
