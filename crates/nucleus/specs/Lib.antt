pub mod Commands
pub mod Users
pub mod Responses
pub mod Nucleus
pub mod Target
pub mod Waiters
pub mod WellMade
pub mod Clock
pub mod Rows
pub mod Committed
pub mod Effects
pub mod Step
pub mod Text
pub mod Line
mod Examples
mod WaitingExamples
