pub mod Declarators
pub mod Initials
pub mod Members
pub mod Programs
pub mod Statements
