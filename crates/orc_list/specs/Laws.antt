-- Proofs of the laws that sets over chains owe to their traits.
pub mod Ordered
pub mod SetLaws
pub mod Entries
