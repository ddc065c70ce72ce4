pub mod Slices
pub mod Eights
pub mod Laws
