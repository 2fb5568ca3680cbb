pub mod Checkpoint
pub mod Forms
pub mod Laws
pub mod Parts
pub mod Widths
