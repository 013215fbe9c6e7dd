pub mod Scanning
pub mod Spellable
pub mod Lexemes
pub mod Phrase
pub mod Grammar
pub mod ByKind
