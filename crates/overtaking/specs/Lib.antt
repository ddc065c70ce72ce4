pub mod Moments
pub mod Statements
pub mod Examples
