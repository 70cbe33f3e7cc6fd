-- Proofs of the laws that the lines of watch files owe to their trait.
pub mod WatchLines
