pub mod Later
pub mod Coming
pub mod OwnEntries
pub mod Leaving
pub mod Stretches
