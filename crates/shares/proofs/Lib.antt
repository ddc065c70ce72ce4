-- Theorems that rest on the definitions of specs/, for callers; nothing in specs/ cites them.
pub mod Laws
pub mod LawsHolding
pub mod LawsReading
pub mod LawsChanging
pub mod LawsEnding
pub mod LawsRefused
