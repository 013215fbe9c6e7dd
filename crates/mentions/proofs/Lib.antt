pub mod Growing
pub mod GuardsAt
pub mod Slots
pub mod Texts
pub mod Touches
pub mod Surveyed
pub mod Counted
