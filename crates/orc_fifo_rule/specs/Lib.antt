pub mod QueueDiscipline
pub mod Watches
pub mod Counts
pub mod Laws
