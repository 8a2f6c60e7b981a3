pub mod Rounds
pub mod Exits
pub mod Known
pub mod Guarding
pub mod Names
pub mod Collecting
pub mod Visits
