pub mod Calls
pub mod Offsets
pub mod Printed
pub mod Prints
