pub mod StrideText
