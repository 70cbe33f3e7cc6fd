pub mod NumberLists
pub mod GoodLinesLemmas
pub mod JobValues
