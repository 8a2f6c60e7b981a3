pub mod StepsAlone
pub mod Changing
pub mod FlowFacts
pub mod Retakes
pub mod PairSteps
pub mod StartRanges
pub mod Parted
