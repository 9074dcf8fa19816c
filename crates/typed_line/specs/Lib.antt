pub mod Keywords
pub mod Line
