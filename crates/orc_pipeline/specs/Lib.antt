pub mod Desks
pub mod Team
pub mod Learning
pub mod Pipeline
pub mod Ran
pub mod Run
