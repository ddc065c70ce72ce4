pub mod Output
mod Examples
