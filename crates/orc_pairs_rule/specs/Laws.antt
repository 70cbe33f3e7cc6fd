-- Proofs of the laws that the discipline owes to its traits, and of what its events keep.
pub mod Lists
pub mod NodesBefore
pub mod Histories
pub mod Kinds
pub mod Nodes
pub mod Shown
pub mod Kept
