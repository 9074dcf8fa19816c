pub mod Within
pub mod Judged
pub mod Sections
pub mod Tallies
pub mod Whole
pub mod Inside
pub mod Example
