pub mod Masks
pub mod Values
pub mod Rows
pub mod Tables
pub mod Parts
pub mod Holding
