pub mod FilePut
pub mod One
pub mod Repeated
pub mod Told
