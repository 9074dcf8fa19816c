pub mod StrideTable
