pub mod Unmade
