pub mod Classes
pub mod Apart
pub mod Subtrees
pub mod LoopSearch
pub mod Laws
