pub mod Reversed
pub mod Later
pub mod Coming
pub mod Beginning
pub mod Sizes
pub mod OwnEntries
