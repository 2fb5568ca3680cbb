pub mod Tree
pub mod Grammar
pub mod Continued
pub mod Words
pub mod Machine
pub mod Reading
pub mod Laws
