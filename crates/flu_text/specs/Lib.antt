pub mod Spelling
pub mod Grammar
pub mod Lexeme
pub mod Reading
pub mod Layout
pub mod Laws
pub mod Signs
