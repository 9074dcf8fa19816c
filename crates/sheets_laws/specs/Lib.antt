pub mod Sheets
pub mod Demand3
pub mod RisingRows
