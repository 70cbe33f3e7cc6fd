pub mod Calls
pub mod Known
pub mod Watches
pub mod Beside
pub mod Rooms
pub mod CameBack
pub mod Over
