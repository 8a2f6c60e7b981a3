pub mod Lists
pub mod Sets
pub mod Changes
pub mod Parts
pub mod Walks
pub mod Names
