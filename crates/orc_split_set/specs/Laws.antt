-- Proofs of the laws that the set owes to its traits.
pub mod Ordered
pub mod SetLaws
pub mod Entries
pub mod Placed
