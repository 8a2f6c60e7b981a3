pub mod Ascents
pub mod Basing
pub mod Besides
pub mod Bools
pub mod Firsts
pub mod Names
pub mod Putting
pub mod Unique
