pub mod Lines
pub mod Sorting
pub mod Text
pub mod WeakText
