pub mod Registers
pub mod Tables
pub mod Jumps
pub mod Marks
