pub mod Decimal
pub mod ReadBack
pub mod Written
