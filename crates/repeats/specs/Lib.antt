pub mod Repeats
pub mod Marks
pub mod Laws
pub mod Passed
pub mod Examples
