pub mod Words
pub mod Visible
pub mod Arguments
pub mod VisibleWords
pub mod KindWords
pub mod Spelled
pub mod Lines
