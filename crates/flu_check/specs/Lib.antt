pub mod Faults
pub mod LoopFound
