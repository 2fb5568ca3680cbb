pub mod Comings
pub mod Countings
pub mod Halves
pub mod OtherNames
pub mod ReportFronts
pub mod States
