pub mod Followed
pub mod Known
pub mod WordMap
