pub mod Lined
pub mod Pairs
pub mod Decoded
