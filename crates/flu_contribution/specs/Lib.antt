pub mod Contributions
pub mod Combining
pub mod Laws
pub mod Sending
pub mod Sharing
pub mod Parts
pub mod OneJob
