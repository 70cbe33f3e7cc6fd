pub mod JobRun
pub mod Ticks
