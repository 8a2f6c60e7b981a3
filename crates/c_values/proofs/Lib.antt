pub mod ExpressionLists
pub mod Pieces
pub mod Turns
