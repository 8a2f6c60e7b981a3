pub mod Merging
pub mod NextList
pub mod Objects
