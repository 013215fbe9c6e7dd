pub mod Names
pub mod Scanned
pub mod Flags
pub mod Loads
