pub mod Seats
pub mod Notes
pub mod Rule
pub mod Steps
pub mod Ends
