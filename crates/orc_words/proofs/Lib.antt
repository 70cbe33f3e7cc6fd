pub mod NewWords
pub mod Positions
