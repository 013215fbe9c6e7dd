pub mod Spelled
pub mod Slots
pub mod States
pub mod Walk
