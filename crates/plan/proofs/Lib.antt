pub mod Missing
pub mod Fold
pub mod Strides
pub mod Few
pub mod Rows
