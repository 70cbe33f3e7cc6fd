pub mod Shares
pub mod Lists
pub mod Moves
pub mod Posts
pub mod Callers
