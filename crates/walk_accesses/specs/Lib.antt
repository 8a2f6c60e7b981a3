pub mod Accesses
pub mod Kept
pub mod Steps
pub mod Parts
