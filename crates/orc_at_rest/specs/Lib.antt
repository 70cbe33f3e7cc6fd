pub mod Domains
pub mod Reuse
pub mod Journals
pub mod Queues
