pub mod Statuses
pub mod Names
pub mod Lines
pub mod Jobs
pub mod Products
pub mod Answer
pub mod PartLines
pub mod PartAnswer
