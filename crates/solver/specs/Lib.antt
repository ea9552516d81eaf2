pub mod Solved
pub mod Demands
