pub mod Places
pub mod Bounded
pub mod Promises
