pub mod Places
pub mod Stretches
pub mod Stripped
pub mod WeakLocks
pub mod Weakened
