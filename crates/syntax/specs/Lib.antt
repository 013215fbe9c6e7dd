pub mod Bytes
pub mod Limits
pub mod Token
pub mod Spelling
pub mod Tree
pub mod Decide
pub mod Held
