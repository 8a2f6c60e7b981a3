pub mod Targets
pub mod Strong
pub mod PlainWords
pub mod PlainThreads
pub mod Leaves
pub mod PlainSteps
pub mod Reached
