pub mod Behind
pub mod Apart
pub mod Alike
pub mod Ranges
pub mod Reading
pub mod Tables
