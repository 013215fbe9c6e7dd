pub mod Printing
pub mod Stands
