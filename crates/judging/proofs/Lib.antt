pub mod TokenSlices
pub mod TokensStand
pub mod Counts
pub mod Refusals
pub mod Judging
