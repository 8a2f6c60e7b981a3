pub mod Closed
pub mod Jumps
pub mod Marks
