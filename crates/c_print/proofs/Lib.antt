pub mod Stars
pub mod Rows
