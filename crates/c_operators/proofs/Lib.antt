pub mod Offsets
pub mod Rows
