-- Proofs of the laws that a discipline of this crate owes to its trait.
pub mod AnyFit
