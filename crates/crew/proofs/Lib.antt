pub mod Zips
pub mod Reaching
pub mod Totals
