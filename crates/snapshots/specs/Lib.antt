pub mod Conditions
pub mod Snapshots
pub mod Text
