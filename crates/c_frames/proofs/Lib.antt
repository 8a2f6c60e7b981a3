pub mod Counts
pub mod Objects
