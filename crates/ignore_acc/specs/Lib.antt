pub mod IgnoreAcc
pub mod Code
