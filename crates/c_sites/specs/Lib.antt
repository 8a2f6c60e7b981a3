pub mod Answers
pub mod Functions
pub mod Layouts
pub mod Sites
pub mod Typed
pub mod Whole
