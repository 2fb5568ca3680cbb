pub mod Chosen
pub mod Nothing
pub mod Turns
pub mod Drawn
pub mod Batches
pub mod Bounds
pub mod OneRun
