pub mod Desks
pub mod Team
pub mod Learning
pub mod CameBack
