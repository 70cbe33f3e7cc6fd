-- Proofs of the laws that the disciplines of the examples owe to their trait.
pub mod OwnRoots
