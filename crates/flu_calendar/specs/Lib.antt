pub mod Calendar
pub mod Units
pub mod Texts
pub mod Places
pub mod TimeInText
pub mod Agreement
