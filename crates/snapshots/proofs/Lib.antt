pub mod Resumable
mod Rows
pub mod Writing
