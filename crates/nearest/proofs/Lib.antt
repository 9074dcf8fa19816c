pub mod Known
pub mod Chosen
pub mod Asked
