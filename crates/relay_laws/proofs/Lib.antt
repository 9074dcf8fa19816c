pub mod Consecutive
pub mod Deals
pub mod Relayed
pub mod ReadBack
pub mod Checked
pub mod Refusals
