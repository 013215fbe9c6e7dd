pub mod Found
pub mod Filling
pub mod Formed
pub mod Stands
pub mod Parts
pub mod Whole
