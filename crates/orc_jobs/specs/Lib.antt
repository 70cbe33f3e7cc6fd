pub mod Line
pub mod Numbers
pub mod JobValue
pub mod GoodLines
pub mod Generated
