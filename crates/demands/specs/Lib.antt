pub mod Demand1
pub mod Demand2
pub mod Demand3
pub mod Widths
pub mod Points
pub mod Load
pub mod Arrival
