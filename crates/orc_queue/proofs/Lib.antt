pub mod Alone
pub mod Answering
pub mod Behind
pub mod Causes
pub mod Filled
pub mod Holding
pub mod Joins
pub mod Lacking
pub mod Linking
pub mod Looking
pub mod Missing
pub mod Openings
pub mod Pieces
pub mod PutTurns
pub mod Room
pub mod Stopping
pub mod TakeTurns
pub mod Taking
mod Backs
mod Costs
