pub mod SpotViews
pub mod Spots
