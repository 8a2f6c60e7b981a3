pub mod Sets
pub mod BothWays
pub mod Rises
pub mod Whole
pub mod Rounds
pub mod Knowing
pub mod Narrow
pub mod Small
pub mod Order
pub mod Insertion
pub mod Naming
pub mod Compared
pub mod Making
pub mod Nearing
pub mod Visiting
pub mod Falling
mod Worked
