-- Lemmas that one function's proof cites.
mod Unread
-- Theorems that rest on the definitions of specs/, for callers; nothing in specs/ cites them.
pub mod Laws
