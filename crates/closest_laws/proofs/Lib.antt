pub mod Scan
pub mod LastThree
pub mod Capped
pub mod TwoMissing
pub mod Bits
pub mod Steps
pub mod Search
pub mod Fills
