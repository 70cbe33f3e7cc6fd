pub mod Report
pub mod Summary
pub mod Totals
pub mod AllDone
