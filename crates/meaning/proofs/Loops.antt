pub mod Level
pub mod Joined
pub mod Turned
