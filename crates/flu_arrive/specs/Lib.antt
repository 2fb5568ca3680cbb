pub mod Notes
pub mod Rule
pub mod Steps
