pub mod Handed
pub mod HandedOver
