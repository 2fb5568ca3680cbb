pub mod Unique
pub mod Runs
pub mod Turns
pub mod Folds
pub mod Kept
