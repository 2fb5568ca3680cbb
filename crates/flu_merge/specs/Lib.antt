pub mod Merge
pub mod Moments
pub mod Ticks
