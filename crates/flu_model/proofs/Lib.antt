pub mod ItagLemmas
pub mod NameLemmas
pub mod TimeLemmas
