pub mod Found
pub mod Slices
pub mod Outlined
