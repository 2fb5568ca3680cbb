pub mod Drawing
pub mod Streaming
pub mod Counting
