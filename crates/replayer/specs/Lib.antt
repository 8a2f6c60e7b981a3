pub mod Wants
pub mod Steps
pub mod Following
pub mod Replays
