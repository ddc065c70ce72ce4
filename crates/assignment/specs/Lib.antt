pub mod Assignment
pub mod Laws
