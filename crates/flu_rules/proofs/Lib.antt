pub mod HeightLemmas
pub mod DistinctLemmas
pub mod ListLemmas
pub mod TagLemmas
pub mod DigitLemmas
