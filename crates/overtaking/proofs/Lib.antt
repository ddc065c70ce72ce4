-- Theorems that rest on the definitions of specs/, for callers; nothing in specs/ cites them.
pub mod Lines
pub mod Room
pub mod Stages
pub mod Commands
pub mod Serving
pub mod Passing
pub mod Usable
pub mod Calls
pub mod Theorem
