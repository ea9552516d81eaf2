-- The tree of a sheet without a fault, and its neighbours.
pub mod Naming
pub mod Unfolded
pub mod Placed
pub mod Sheet
pub mod Near
