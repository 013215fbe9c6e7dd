pub mod Promises
pub mod Adding
