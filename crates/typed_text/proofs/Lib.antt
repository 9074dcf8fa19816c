pub mod Inside
pub mod Texts
