pub mod PairOrder
pub mod Values
pub mod ReadBack
pub mod OneAnswer
