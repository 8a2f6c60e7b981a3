pub mod Calls
pub mod Expressions
pub mod Tails
pub mod Turns
