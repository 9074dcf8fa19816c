pub mod Round
pub mod Distance
pub mod Quotient
