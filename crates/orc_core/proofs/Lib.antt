pub mod Counted
pub mod Order
pub mod Saving
pub mod Steps
pub mod Within
