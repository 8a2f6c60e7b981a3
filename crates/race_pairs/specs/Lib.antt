pub mod Roots
pub mod Gains
pub mod Touches
pub mod Races
pub mod Groups
