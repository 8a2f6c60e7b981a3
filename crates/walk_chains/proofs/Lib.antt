pub mod Lowest
pub mod Places
pub mod One
