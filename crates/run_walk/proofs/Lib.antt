pub mod Slices
pub mod Growing
pub mod Printing
pub mod Ended
pub mod Remaining
