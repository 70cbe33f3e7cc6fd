pub mod DeskPasses
pub mod Growing
pub mod AtRest
pub mod Chosen
