pub mod Finite
pub mod Spread
pub mod Order
pub mod Solve
