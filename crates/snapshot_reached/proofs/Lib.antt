pub mod Cells
pub mod ObjectOrder
pub mod WordsFit
pub mod Asks
pub mod Objects
pub mod Arenas
pub mod Heads
pub mod Changes
pub mod Known
pub mod Rising
pub mod Stripes
pub mod Regions
pub mod FramesFit
pub mod Returns
pub mod Threads
mod Rows
pub mod Whole
pub mod Meets
