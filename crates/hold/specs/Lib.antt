pub mod Hold
pub mod Tables
