pub mod Queues
pub mod Over
pub mod Runs
