pub mod Views
pub mod Threads
pub mod Words
pub mod Rule
pub mod Plays
pub mod Seats
pub mod Closing
