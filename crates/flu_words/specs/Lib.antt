pub mod Numbers
pub mod Words
pub mod Parts
