pub mod Puts
pub mod Outcomes
pub mod Steps
pub mod Ends
pub mod Faults
pub mod Endings
