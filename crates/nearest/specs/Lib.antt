pub mod Candidates
pub mod Walked
pub mod Outcome
