-- Readings that compute, each tied by a theorem of `proofs/` to the words beside this folder.
pub mod Step
pub mod Table
pub mod Load
