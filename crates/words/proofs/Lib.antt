pub mod Sizes
pub mod Follow
pub mod Keywords
pub mod Values
pub mod Ratio
