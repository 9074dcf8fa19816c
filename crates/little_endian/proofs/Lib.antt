pub mod Nan
pub mod Put
