pub mod Remains
pub mod Printed
