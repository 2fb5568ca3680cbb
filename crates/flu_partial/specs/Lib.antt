pub mod Entries
pub mod Forms
pub mod Having
pub mod Laws
pub mod Order
pub mod Partial
pub mod Parts
pub mod Pieces
