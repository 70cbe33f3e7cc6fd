pub mod Laying
pub mod Indices
