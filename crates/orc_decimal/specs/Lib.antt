pub mod Decimals
pub mod Canonical
