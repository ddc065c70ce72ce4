pub mod KeptTables
pub mod Laws
pub mod Examples
