pub mod Places
pub mod Seen
pub mod Neighbours
pub mod Halfway
pub mod Visits
pub mod Whole
pub mod Marks
pub mod Answer
