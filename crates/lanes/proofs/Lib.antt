pub mod Adding
pub mod Carrying
pub mod Lane
pub mod Rows
pub mod Named
