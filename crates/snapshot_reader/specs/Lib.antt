pub mod Made
pub mod Misfits
pub mod Reading
pub mod Tallies
pub mod Traps
