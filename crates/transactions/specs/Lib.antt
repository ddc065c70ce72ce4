pub mod Slots
pub mod Machine
pub mod View
pub mod Effect
pub mod Theorems
