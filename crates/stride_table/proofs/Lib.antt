pub mod Table
pub mod Fold
