pub mod Bools
pub mod Any
pub mod Lists
pub mod Indices
