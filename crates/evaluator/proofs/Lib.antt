pub mod Lanes
pub mod Numbers
pub mod Remainders
pub mod Lacking
pub mod Places
pub mod Slots
pub mod Readings
pub mod Runs
