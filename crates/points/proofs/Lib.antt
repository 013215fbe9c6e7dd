pub mod Shown
pub mod Listed
