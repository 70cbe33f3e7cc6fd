pub mod Actual
pub mod Passes
pub mod Reusing
pub mod Seeds
pub mod Silent
