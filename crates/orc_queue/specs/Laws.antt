-- Proofs of the laws that the queue owes to its traits.
pub mod Histories
