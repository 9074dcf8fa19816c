pub mod Consecutive
pub mod Plays
pub mod Pool
pub mod Checks
pub mod Relay
