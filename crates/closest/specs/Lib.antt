pub mod Answer
pub mod Within
pub mod Code
