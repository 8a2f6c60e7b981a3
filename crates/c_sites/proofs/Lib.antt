pub mod FunctionRows
pub mod Kept
pub mod Programs
pub mod SiteRows
pub mod Sizing
pub mod Typing
