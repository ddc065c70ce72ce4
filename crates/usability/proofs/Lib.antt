-- What proofs over a whole state cite.
pub mod Known
-- Theorems that rest on the definitions of specs/, for callers; nothing in specs/ cites them.
pub mod Laws
