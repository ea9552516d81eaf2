pub mod Cells
pub mod Decided
pub mod Spots
pub mod Placing
pub mod Found
pub mod Search
