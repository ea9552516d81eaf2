pub mod Names
pub mod Absent
pub mod Coding
