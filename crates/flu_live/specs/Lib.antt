pub mod Seeded
pub mod OneRun
pub mod Possible
pub mod Counting
pub mod Drawing
