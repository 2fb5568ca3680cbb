pub mod Lines
pub mod Laws
pub mod LoopSending
pub mod Texts
