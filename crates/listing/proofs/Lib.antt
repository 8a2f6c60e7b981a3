pub mod Locks
pub mod Orders
pub mod Sorting
pub mod Sorted
pub mod Rows
pub mod WeakRows
