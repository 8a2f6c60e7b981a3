pub mod Histories
pub mod Kept
pub mod Machine
pub mod Outside
pub mod Parts
pub mod Shown
pub mod Walks
pub mod Words
