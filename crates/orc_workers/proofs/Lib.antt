pub mod Resting
pub mod Learned
pub mod Boards
pub mod Seated
pub mod CameBack
pub mod Over
