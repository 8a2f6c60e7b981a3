pub mod Stripping
mod WeakRows
pub mod Running
