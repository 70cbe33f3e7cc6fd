-- Proofs of the laws that the discipline owes to its traits, and of what its events keep.
pub mod Kinds
pub mod Sets
pub mod Kept
