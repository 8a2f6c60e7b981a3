pub mod First
pub mod Keyed
pub mod Lengths
