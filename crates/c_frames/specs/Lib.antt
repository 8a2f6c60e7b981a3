pub mod Locals
pub mod Frames
