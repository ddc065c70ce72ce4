pub mod Table
pub mod Shape
