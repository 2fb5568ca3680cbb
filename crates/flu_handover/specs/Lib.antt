pub mod Handing
pub mod Laws
pub mod Parts
