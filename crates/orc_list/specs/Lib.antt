pub mod Searches
pub mod Turns
pub mod Causes
pub mod Inserts
pub mod Stops
pub mod ListCalls
pub mod SetMembers
pub mod Laws
