pub mod Alike
pub mod Going
pub mod Groups
pub mod Resuming
