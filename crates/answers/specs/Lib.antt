pub mod Says
pub mod Numbered
