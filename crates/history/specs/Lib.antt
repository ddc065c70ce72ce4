pub mod Updates
pub mod Kept
pub mod Lined
pub mod Accepted
pub mod HandLogs
pub mod Ready
pub mod Committed
