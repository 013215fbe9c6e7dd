pub mod Answered
pub mod Shown
pub mod Slices
pub mod Parts
