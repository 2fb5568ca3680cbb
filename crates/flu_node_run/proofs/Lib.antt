pub mod Assembled
pub mod Moved
pub mod OneJob
