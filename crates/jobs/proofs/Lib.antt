pub mod Asked
pub mod Ending
pub mod Found
pub mod FromCheckpoint
pub mod Made
pub mod OfLog
pub mod Recorded
pub mod Replayed
