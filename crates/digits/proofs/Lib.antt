pub mod ForEach
pub mod Writing
