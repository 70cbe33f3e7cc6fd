-- Proofs of the laws that a pass of the domain, and the discipline for tests, owe to their traits.
pub mod Passes
pub mod Twins
