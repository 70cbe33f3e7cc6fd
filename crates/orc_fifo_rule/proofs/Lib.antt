pub mod Later
pub mod Leaving
pub mod Coming
pub mod Reading
pub mod OwnEntries
pub mod Stretches
pub mod Counting
pub mod MoveKinds
