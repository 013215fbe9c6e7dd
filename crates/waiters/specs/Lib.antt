pub mod Slices
pub mod Told
