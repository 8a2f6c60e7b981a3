pub mod Kept
pub mod Kinds
pub mod Loops
pub mod Pieces
pub mod Sizes
