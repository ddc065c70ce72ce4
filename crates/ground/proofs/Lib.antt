-- Theorems that rest on the definitions of specs/, for callers; nothing in specs/ cites them.
pub mod StoreLaws
pub mod Fresh
pub mod Reading
pub mod Restore
pub mod Entries
pub mod FirstChange
pub mod Unique
pub mod Taken
pub mod Kept
pub mod Acts
pub mod Keys
pub mod Ground
pub mod Committed
