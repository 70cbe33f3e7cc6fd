pub mod Operations
pub mod Lists
pub mod Runs
pub mod Views
pub mod Rule
pub mod Steps
pub mod Learning
pub mod Ends
