pub mod ChainHeaps
pub mod QueueHeaps
pub mod CellPasses
pub mod Ready
