pub mod Profiling
