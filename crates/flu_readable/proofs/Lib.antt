pub mod Readable
pub mod Ranks
pub mod Placed
pub mod Rows
pub mod Telling
