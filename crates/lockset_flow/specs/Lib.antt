pub mod Flow
pub mod Meeting
pub mod Rounds
