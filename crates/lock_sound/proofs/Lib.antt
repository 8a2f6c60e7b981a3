pub mod Fits
pub mod Running
