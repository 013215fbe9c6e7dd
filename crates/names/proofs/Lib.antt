pub mod Naming
pub mod Listing
pub mod Misnaming
