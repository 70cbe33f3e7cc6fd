pub mod PresentIds
pub mod Projection
pub mod Mirror
pub mod Taken
