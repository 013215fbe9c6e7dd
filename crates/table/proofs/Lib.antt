pub mod Lines
pub mod Monitors
