pub mod Containers
pub mod Over
pub mod Sets
pub mod Runs
