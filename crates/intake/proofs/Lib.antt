pub mod Inside
pub mod Theorems
pub mod Judging
