pub mod Journals
pub mod Lists
pub mod Parts
pub mod QueueHistory
pub mod SetHistory
pub mod StoredHistory
pub mod PlainQueue
pub mod PlainSet
