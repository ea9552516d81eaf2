pub mod Heights
pub mod Smallest
pub mod Places
pub mod Entry
pub mod Grown
