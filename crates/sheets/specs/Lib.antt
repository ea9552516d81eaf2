pub mod Lines
pub mod Written
pub mod Parts
pub mod Reading
pub mod Links
pub mod Counting
pub mod Tree
