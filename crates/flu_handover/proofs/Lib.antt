pub mod Alike
pub mod Filled
pub mod Named
pub mod OfFamilies
pub mod Rising
