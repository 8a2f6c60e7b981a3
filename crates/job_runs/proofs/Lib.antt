pub mod Recorded
pub mod Worked
