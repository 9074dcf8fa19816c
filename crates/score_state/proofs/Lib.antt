pub mod Caps
pub mod Lent
pub mod Handed
