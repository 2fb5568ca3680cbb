-- What is read keeps the rules of the language: of names, expressions, templates, actions, listings and whole jobs.
pub mod Plain
pub mod Versions
pub mod Names
pub mod Terms
pub mod Sizes
pub mod Written
pub mod Lists
pub mod Templates
pub mod Actions
pub mod Listings
pub mod Drafts
pub mod Jobs
