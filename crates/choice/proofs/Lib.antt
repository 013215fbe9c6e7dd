pub mod Members
pub mod Binding
pub mod Rows
pub mod Passing
pub mod Staging
