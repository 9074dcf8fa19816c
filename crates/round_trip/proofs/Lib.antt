pub mod Words
pub mod Values
pub mod Free
pub mod Lines
pub mod Records
pub mod Steps
pub mod RoundTrip
