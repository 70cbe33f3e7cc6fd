pub mod Chains
pub mod Answers
