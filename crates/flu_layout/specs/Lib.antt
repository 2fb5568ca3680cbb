pub mod Spelling
pub mod Laid
pub mod Lists
pub mod Stands
pub mod Laws
