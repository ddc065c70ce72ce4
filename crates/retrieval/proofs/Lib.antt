-- Lemmas that the proofs of L1 and L4 cite.
pub mod Causes
