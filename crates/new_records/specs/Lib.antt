pub mod Laws
pub mod NewRecords
