pub mod Machines
pub mod Loops
pub mod Front
pub mod Judged
pub mod Agree
pub mod Taken
pub mod ByHeld
