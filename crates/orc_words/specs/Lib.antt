pub mod Bounds
pub mod NewWords
pub mod Operations
pub mod Packed
pub mod Places
