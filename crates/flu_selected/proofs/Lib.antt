mod Ends
mod Keeping
pub mod NoClocks
mod Names
mod Places
mod Lists
pub mod Faults
mod ReadSources
mod OneJob
