-- Readings that compute, each tied by a theorem of `proofs/` to the words beside this folder.
pub mod Leading
pub mod Lexeme
pub mod Scan
pub mod Reading
