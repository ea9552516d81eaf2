pub mod Room
pub mod Tables
pub mod Kept
pub mod Round
pub mod Ended
pub mod Used
pub mod Trees
pub mod Found
