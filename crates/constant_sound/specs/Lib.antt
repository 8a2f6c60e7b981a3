pub mod Running
pub mod Written
