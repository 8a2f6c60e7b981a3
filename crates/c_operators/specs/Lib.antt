pub mod Constants
pub mod Denoted
pub mod Context
pub mod Operators
pub mod Commas
pub mod Views
