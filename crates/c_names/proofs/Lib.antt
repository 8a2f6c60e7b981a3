pub mod ListedParams
pub mod Numbers
mod Rows
pub mod Tables
