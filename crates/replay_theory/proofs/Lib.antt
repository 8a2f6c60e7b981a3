pub mod Numbers
pub mod Fronts
pub mod Alone
pub mod Words
pub mod Drawn
pub mod Refusals
pub mod Whole
pub mod Made
