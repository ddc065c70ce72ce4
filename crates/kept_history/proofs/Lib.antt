-- Theorems that rest on the definitions of specs/, for callers; nothing in specs/ cites them.
pub mod Theorem
