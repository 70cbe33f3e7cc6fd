pub mod ChainDiscipline
pub mod Watches
pub mod Counts
pub mod Laws
