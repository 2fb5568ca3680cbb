pub mod Numerals
pub mod StepLines
pub mod Replays
pub mod OneEnding
