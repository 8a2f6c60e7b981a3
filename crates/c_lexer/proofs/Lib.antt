pub mod Bodies
pub mod Definitions
pub mod Laws
pub mod Numerals
pub mod Places
pub mod Steps
pub mod Values
