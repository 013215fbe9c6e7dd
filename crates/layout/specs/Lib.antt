pub mod Places
pub mod Closing
pub mod Laid
pub mod Promises
