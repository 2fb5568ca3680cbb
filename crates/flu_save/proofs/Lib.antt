pub mod Numbers
pub mod Families
pub mod Lengths
pub mod Values
pub mod Members
pub mod Meanings
pub mod States
pub mod Saves
