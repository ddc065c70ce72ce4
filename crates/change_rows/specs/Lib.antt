pub mod ChangeRows
pub mod Laws
