pub mod Runs
pub mod Parts
pub mod Viable
pub mod Accepts
pub mod Found
pub mod Spelling
pub mod Levels
pub mod Deep
pub mod HeadVerdicts
pub mod Heads
pub mod Exact
pub mod Words
mod Clocks
mod Said
mod SourceSteps
