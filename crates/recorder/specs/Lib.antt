pub mod Records
pub mod Carriers
pub mod Finished
