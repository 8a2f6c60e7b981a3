pub mod Effects
pub mod Greatest
pub mod Meets
pub mod Relaxed
pub mod Rows
pub mod Sizes
pub mod Walking
pub mod Within
