pub mod TotalText
