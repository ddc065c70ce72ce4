pub mod Database
pub mod Tables
pub mod Committed
mod Examples
