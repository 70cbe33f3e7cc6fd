pub mod Histories
pub mod Permutations
pub mod SetHistories
pub mod SortedLists
pub mod StateAfter
