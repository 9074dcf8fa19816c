pub mod Faults
pub mod Lines
pub mod Words
pub mod Walk
pub mod Values
