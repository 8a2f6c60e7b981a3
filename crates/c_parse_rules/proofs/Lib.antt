pub mod Steps
pub mod Singles
pub mod Turns
pub mod HeadSteps
pub mod After
pub mod Rounds
