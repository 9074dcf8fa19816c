pub mod Only
pub mod Found
pub mod Fewest
