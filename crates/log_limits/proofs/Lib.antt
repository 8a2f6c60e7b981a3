pub mod Counting
pub mod Entries
pub mod Parting
pub mod Leaving
pub mod Within
pub mod Weakened
