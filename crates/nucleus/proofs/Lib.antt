-- What proofs of other crates cite too.
pub mod Known
