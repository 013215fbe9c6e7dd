-- Readings that compute, each tied by a theorem of `proofs/` or of `demands` to the words beside this folder.
pub mod Bodies
pub mod First
pub mod Choice
pub mod Check
pub mod Table
pub mod Touch
pub mod Frames
pub mod Calls
pub mod Load
