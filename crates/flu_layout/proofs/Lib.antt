pub mod Laid
pub mod Standing
pub mod Kept
pub mod KeyWords
