pub mod KeptStates
pub mod Laws
pub mod Examples
