pub mod JobRun
pub mod Swings
