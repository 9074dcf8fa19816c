pub mod Pieces
pub mod Sections
pub mod Walked
