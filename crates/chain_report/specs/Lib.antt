pub mod Accesses
pub mod Chains
pub mod Directions
pub mod Finds
pub mod Past
pub mod Replayed
pub mod Rows
pub mod Tables
