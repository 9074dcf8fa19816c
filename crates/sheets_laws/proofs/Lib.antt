pub mod Stops
pub mod Accepted
pub mod Written
pub mod Laws
pub mod Demand3
pub mod RisingRows
pub mod Totals
