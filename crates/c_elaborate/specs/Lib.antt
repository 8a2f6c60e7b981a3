pub mod Functions
pub mod Pointers
pub mod Whole
