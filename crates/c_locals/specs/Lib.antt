pub mod Addresses
pub mod Kept
pub mod Roots
pub mod Taken
