pub mod Replaced
pub mod Between
pub mod Changed
