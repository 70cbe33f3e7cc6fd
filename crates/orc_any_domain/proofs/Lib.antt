pub mod Lists
pub mod Rounds
pub mod Counting
pub mod Rows
pub mod FirstRows
