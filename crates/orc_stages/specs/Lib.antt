pub mod Stage
pub mod Calls
pub mod Desks
pub mod Caller
