pub mod OwnerLemmas
pub mod ClashLemmas
