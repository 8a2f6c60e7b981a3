-- What the contracts of jobs and crews speak of.
pub mod Counts
pub mod Turns
pub mod Schedule
pub mod Hands
