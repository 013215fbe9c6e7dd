pub mod Sums
pub mod Taking
