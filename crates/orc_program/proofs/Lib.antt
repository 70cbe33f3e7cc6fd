mod Files
pub mod Inputs
pub mod OneAnswer
pub mod Rows
pub mod Sums
pub mod Whole
