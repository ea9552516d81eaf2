pub mod Accepts
pub mod Right
