pub mod Faults
pub mod Grammar
pub mod Many
pub mod OneLine
pub mod Threads
pub mod Unique
pub mod Whole
