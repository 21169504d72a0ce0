pub mod Spelling
pub mod Lookup
pub mod Pieces
pub mod Lexeme
pub mod Refusals
pub mod Cutting
