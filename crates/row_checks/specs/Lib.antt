pub mod RowChecks
