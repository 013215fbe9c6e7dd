pub mod FirstElement
pub mod Marks
pub mod Scanning
