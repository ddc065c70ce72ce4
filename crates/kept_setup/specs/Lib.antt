pub mod KeptSetup
pub mod Tidy
pub mod Examples
