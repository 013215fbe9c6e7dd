pub mod Way
pub mod Ended
pub mod Results
