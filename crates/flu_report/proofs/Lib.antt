pub mod TagLemmas
pub mod ReportLemmas
