pub mod Team
pub mod Site
pub mod Seats
pub mod Learning
