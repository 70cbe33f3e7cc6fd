pub mod OwnSteps
pub mod Parts
pub mod Passes
pub mod Drains
pub mod Looks
pub mod Ends
