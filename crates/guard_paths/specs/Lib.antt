pub mod Guards
pub mod LoopsClosed
pub mod Reached
pub mod Ways
pub mod Walked
