pub mod Journal
pub mod Run
pub mod Answers
pub mod Lent
pub mod Claim
pub mod Statements
mod Examples
