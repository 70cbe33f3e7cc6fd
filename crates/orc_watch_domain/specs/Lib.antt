pub mod Cells
pub mod Over
pub mod Runs
