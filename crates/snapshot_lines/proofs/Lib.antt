pub mod Blanks
pub mod Heads
pub mod Lines
pub mod Newlines
pub mod Once
pub mod Phases
pub mod Values
