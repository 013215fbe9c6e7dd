pub mod Loaded
pub mod Places
pub mod Same
pub mod Pointed
pub mod Making
