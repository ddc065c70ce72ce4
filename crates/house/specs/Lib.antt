pub mod House
mod Examples
