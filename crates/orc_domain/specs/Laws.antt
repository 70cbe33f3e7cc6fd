-- Proofs of the laws that the domain owes to its trait.
pub mod Adding
pub mod Counters
pub mod Gates
pub mod Holding
pub mod Lacking
pub mod Lasting
pub mod Opened
pub mod Passes
