pub mod Ascending
pub mod Filling
pub mod Nodes
