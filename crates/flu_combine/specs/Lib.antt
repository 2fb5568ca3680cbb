pub mod Names
pub mod Partials
pub mod Reading
pub mod Combined
pub mod Faults
pub mod Resting
pub mod Laws
