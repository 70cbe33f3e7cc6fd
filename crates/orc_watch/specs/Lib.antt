pub mod WatchGrammar
pub mod WatchText
pub mod Laws
