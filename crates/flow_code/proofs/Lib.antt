pub mod Asked
pub mod Counting
pub mod Counts
pub mod Dues
pub mod Endings
pub mod Filling
pub mod Goings
pub mod Objects
pub mod Placing
pub mod Quietly
pub mod Ranges
pub mod Runnable
pub mod Settle
pub mod Shapes
mod StripeRows
pub mod ValidParts
pub mod Scanning
