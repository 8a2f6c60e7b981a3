pub mod Known
pub mod Pointers
pub mod Signatures
pub mod Sources
pub mod Started
pub mod Table
