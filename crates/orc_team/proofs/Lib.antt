pub mod Teams
pub mod Lessons
pub mod Numbered
pub mod Blocks
pub mod Seats
pub mod Learned
pub mod CameBack
pub mod Replies
