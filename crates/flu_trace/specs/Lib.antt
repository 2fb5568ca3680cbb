pub mod Lines
pub mod Replaying
pub mod OneEnding
pub mod LoopReplaying
