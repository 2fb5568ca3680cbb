pub mod Coming
pub mod Faults
pub mod Halves
pub mod Standing
pub mod Written
pub mod Counting
