pub mod Ascending
