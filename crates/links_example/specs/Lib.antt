pub mod OwnRoots
pub mod Stacks
pub mod Laws
