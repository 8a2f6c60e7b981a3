pub mod Numbered
pub mod NumberTables
