pub mod Counts
pub mod Rank
pub mod Order
