pub mod Closing
pub mod Removal
pub mod Turn
pub mod Laws
pub mod Examples
