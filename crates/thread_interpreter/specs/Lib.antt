pub mod Endings
pub mod Flows
pub mod Formulas
pub mod Parts
pub mod Passing
pub mod Pieces
pub mod Stacks
pub mod Starts
