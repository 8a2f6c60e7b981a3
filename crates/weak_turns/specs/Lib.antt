pub mod Shown
pub mod Carrying
pub mod Turns
pub mod Finding
