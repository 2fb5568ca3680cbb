pub mod Stepping
pub mod UpperSteps
pub mod LowerSteps
pub mod Whole
pub mod Hands
