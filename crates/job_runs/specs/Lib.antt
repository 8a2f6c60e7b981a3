pub mod Works
pub mod Logs
pub mod Recordings
pub mod Retold
