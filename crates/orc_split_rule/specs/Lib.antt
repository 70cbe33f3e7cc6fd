pub mod SplitOrder
pub mod SplitDiscipline
pub mod Watches
pub mod Laws
