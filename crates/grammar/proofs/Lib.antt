pub mod Readers
pub mod KindTests
