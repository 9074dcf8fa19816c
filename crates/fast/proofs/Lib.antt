pub mod Difference
pub mod Steps
