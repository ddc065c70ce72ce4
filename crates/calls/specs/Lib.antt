pub mod Outcome
pub mod Commands
pub mod Laws
pub mod StepLaws
