pub mod Fast
pub mod Code
