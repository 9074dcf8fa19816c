pub mod Limits
pub mod Gap
