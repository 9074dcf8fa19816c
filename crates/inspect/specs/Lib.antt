pub mod Presence
pub mod Inspect
pub mod Target
pub mod Checks
