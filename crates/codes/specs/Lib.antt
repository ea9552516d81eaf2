pub mod Parts
pub mod Layout
pub mod Truths
pub mod Sights
pub mod Fits
pub mod Sighted
