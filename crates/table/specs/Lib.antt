pub mod Rows
pub mod Written
pub mod Decides
pub mod Listed
pub mod Directions
pub mod Refusals
