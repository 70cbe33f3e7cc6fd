pub mod GrammarLaws
pub mod CauseOrLine
pub mod Texts
