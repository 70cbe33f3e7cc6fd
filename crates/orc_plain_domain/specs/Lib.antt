pub mod Rows
pub mod Given
pub mod Passes
pub mod Calls
pub mod Twins
pub mod Laws
pub mod Ends
pub mod Rest
