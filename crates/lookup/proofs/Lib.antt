pub mod FromFn
pub mod Moving
pub mod Ranges
