-- Proofs of the laws that the machine owes to shared words.
pub mod Kept
pub mod Steps
