pub mod ReservedWords
