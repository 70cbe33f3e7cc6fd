pub mod Work
pub mod Turns
pub mod Records
pub mod Rounds
pub mod Drains
pub mod Rest
pub mod Reached
pub mod Reuse
