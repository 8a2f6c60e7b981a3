pub mod Chosen
pub mod Listed
pub mod Loops
pub mod Tables
