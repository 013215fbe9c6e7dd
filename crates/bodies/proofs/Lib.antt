pub mod Filled
pub mod Shifting
pub mod Stretches
