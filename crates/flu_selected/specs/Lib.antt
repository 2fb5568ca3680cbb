pub mod Selecting
pub mod Closed
pub mod Origin
pub mod Shared
pub mod Laws
pub mod Gathering
pub mod OneJob
pub mod Spans
