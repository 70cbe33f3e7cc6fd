pub mod Stays
pub mod Swings
pub mod Finding
pub mod Pushing
pub mod Reading
pub mod Pairs
