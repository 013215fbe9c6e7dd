pub mod Coding
pub mod Promises
