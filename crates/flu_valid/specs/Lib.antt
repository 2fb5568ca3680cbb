pub mod Faults
pub mod LoopSearch
