pub mod Reading
pub mod Putting
pub mod InRow
pub mod Endings
