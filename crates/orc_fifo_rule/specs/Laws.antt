-- Proofs of the laws that the discipline owes to its traits, and of what its events keep.
pub mod Kinds
pub mod Nodes
pub mod Events
pub mod Opening
pub mod Paths
pub mod Leaves
pub mod Running
pub mod Sides
pub mod Kept
