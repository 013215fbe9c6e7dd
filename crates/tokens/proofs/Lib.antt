pub mod Words
pub mod Coding
pub mod Tokens
