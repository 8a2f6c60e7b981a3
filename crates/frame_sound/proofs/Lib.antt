pub mod Calls
pub mod Shapes
pub mod Steps
pub mod Table
pub mod Roots
pub mod Runs
