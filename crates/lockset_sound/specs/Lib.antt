pub mod Leading
pub mod Frames
