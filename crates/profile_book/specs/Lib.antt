pub mod Faults
pub mod Gives
pub mod Listing
pub mod Reading
pub mod Writing
