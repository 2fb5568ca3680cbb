pub mod Clocks
pub mod Laws
pub mod MergeLaws
pub mod Merging
pub mod Moments
pub mod TickLaws
