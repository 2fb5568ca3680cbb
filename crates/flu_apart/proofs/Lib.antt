pub mod BestLemmas
pub mod CellLemmas
pub mod SearchLemmas
pub mod TableLemmas
pub mod SortLemmas
pub mod LawLemmas
pub mod ClockLemmas
pub mod ReasonLemmas
