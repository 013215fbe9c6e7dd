pub mod Written
pub mod Slices
