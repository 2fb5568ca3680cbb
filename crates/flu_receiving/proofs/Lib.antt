pub mod Alike
pub mod Faulty
pub mod Feeds
pub mod Steps
pub mod Unbroken
pub mod Wholes
