pub mod Holding
pub mod Held
pub mod Regions
