pub mod FramesAt
pub mod FirstLine
pub mod FrameTest
pub mod Decoding
