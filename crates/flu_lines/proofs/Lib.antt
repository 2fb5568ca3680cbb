pub mod Written
pub mod WrittenConflicts
pub mod WrittenPlans
pub mod WrittenSteps
pub mod WrittenParts
