pub mod Observed
pub mod Notes
pub mod Ways
