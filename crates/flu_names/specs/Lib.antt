pub mod Names
pub mod LoopReserved
