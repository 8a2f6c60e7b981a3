pub mod Telling
pub mod Repeats
