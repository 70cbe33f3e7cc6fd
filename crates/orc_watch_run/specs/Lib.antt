pub mod CellView
pub mod Follows
pub mod WatchCalls
pub mod Passes
pub mod Team
pub mod Learning
pub mod CameBack
