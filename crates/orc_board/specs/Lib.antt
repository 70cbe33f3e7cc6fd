pub mod Stretches
pub mod Desk
pub mod Table
pub mod Follows
pub mod Reportable
pub mod Runs
pub mod ListWithRoom
pub mod DeskCalls
