pub mod Loops
pub mod Closest
