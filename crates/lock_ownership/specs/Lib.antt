pub mod HandOffs
pub mod Holders
pub mod ThreadStripes
