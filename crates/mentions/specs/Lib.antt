pub mod Gathered
pub mod Mentioned
