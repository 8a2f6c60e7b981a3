pub mod ByName
pub mod Counted
mod LibraryNames
pub mod Parts
mod PointerRows
pub mod Starts
pub mod Within
