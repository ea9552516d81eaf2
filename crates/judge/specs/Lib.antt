pub mod Output
pub mod Verdicts
pub mod Writing
pub mod Ready
pub mod Judging
