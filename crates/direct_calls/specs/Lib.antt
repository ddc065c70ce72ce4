pub mod DirectCalls
pub mod Kept
pub mod KeptLaws
pub mod Laws
pub mod Promises
pub mod Places
pub mod PlaceLaws
