pub mod Domains
pub mod Learning
pub mod Aims
pub mod Names
pub mod Rows
pub mod Turns
