pub mod Defined
pub mod Listed
pub mod Made
pub mod Rows
