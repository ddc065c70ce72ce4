pub mod Amendment
pub mod Laws
