pub mod Objects
pub mod Pointing
pub mod Creations
pub mod States
