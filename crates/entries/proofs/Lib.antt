pub mod Sweeps
pub mod Monitors
