pub mod Search
pub mod Elements
pub mod Lists
pub mod Examples
