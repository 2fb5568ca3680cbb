pub mod Planned
pub mod Written
pub mod Causes
pub mod ReadNames
pub mod Outcome
pub mod Calling
pub mod Ending
pub mod Laws
