pub mod BitLemmas
pub mod ListLemmas
pub mod RowLemmas
pub mod PartLemmas
pub mod TableLemmas
