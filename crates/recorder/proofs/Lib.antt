pub mod Ends
pub mod Dealing
pub mod Finishing
