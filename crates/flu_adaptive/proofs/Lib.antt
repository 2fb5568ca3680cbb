pub mod Events
pub mod Growing
pub mod Rates
pub mod SharedJobs
