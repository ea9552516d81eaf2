pub mod Judged
pub mod Handed
pub mod Faults
pub mod Missing
pub mod Closing
pub mod Arranging
