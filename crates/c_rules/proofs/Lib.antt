pub mod Counts
pub mod Examples
pub mod Fitting
pub mod Judged
