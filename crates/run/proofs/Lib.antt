pub mod FrameByFrame
pub mod Records
