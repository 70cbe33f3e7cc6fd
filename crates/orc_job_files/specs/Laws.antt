-- Proofs of the laws that the lines of job files owe to their trait.
pub mod Fields
pub mod Causes
pub mod JobLines
