pub mod Floats
pub mod Distance
pub mod Less
pub mod Apart
pub mod Whole
pub mod WholeSum
pub mod Quotient
pub mod Near
