pub mod Replay
pub mod Answers
pub mod Audit
pub mod Reaching
pub mod Watched
