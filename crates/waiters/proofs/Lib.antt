pub mod Loops
pub mod Front
