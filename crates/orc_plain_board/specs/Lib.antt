pub mod Machine
pub mod Words
pub mod Rules
pub mod Views
pub mod Calls
pub mod BoardCalls
