pub mod Laws
pub mod Looks
pub mod Grown
pub mod Rank
