pub mod Ways
pub mod Reading
pub mod Searches
pub mod Steps
pub mod Turns
pub mod Entries
pub mod Inserts
pub mod Causes
