pub mod Names
pub mod SomePartials
pub mod BehindTexts
pub mod Commands
pub mod Outcomes
pub mod Folding
pub mod Dones
pub mod Completing
