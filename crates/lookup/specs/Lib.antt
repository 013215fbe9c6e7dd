pub mod Looked
pub mod Slices
