pub mod InRange
pub mod Inside
pub mod Ranged
pub mod Settings
