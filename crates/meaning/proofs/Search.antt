pub mod Model
pub mod Rank
pub mod Truth
pub mod Rows
pub mod Agrees
pub mod Lists
pub mod Levels
