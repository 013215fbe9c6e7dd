pub mod Slots
pub mod Chosen
