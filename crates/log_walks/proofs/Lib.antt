pub mod Floors
pub mod Like
pub mod Drawing
pub mod Operations
pub mod KnownWalk
pub mod KnownWords
pub mod Rows
pub mod Walks
