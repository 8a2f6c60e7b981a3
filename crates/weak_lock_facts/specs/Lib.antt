pub mod Grains
pub mod Loops
pub mod Ranges
