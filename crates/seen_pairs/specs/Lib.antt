pub mod Seen
pub mod Pairings
