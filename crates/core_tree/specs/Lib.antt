pub mod Core
pub mod Meaning
pub mod Runs
pub mod Sound
pub mod View
pub mod Within
