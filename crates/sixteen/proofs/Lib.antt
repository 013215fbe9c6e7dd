pub mod Fill
pub mod Division
pub mod Arrays
