pub mod Names
pub mod Operations
pub mod Log
pub mod Text
pub mod Reading
pub mod Line
pub mod Recogniser
