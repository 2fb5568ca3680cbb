pub mod Faults
pub mod Partials
pub mod Laws
